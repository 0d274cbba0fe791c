mod Taking
mod Meets
mod Joined
mod Following
mod Threads
mod Served
mod OneBatch
mod Seating
