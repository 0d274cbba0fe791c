mod Unlisted
mod Rows
