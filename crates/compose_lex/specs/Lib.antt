pub mod Line
pub mod Fault
pub mod Escape
pub mod LineFault
pub mod TextFault
pub mod Lexed
pub mod Steps
