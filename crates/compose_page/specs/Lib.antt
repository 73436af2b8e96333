pub mod Markup
pub mod Keys
pub mod Cells
pub mod Sections
pub mod Page
