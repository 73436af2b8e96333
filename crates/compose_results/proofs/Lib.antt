pub mod OneMore
pub mod NameLines
pub mod StandingLines
