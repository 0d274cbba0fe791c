mod Closes
mod Texts
