mod Answering
mod Sharing
mod Joined
