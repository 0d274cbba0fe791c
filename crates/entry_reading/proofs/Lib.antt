mod Words
mod Replies
mod Lines
mod Statements
mod Texts
mod Numbers
mod Added
