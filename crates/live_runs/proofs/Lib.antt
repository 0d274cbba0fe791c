mod Counted
mod Going
