mod Parted
mod After
mod Ends
