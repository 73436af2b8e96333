pub mod Texts
pub mod OneCharacter
