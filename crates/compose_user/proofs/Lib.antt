pub mod FirstFile
