pub mod Laws
mod EdgeWays
mod Lines
mod Lists
mod Middles
mod PassLists
mod Passes
mod Places
mod Quotients
mod Reaches
mod SamePlaces
mod Searches
mod Turns
mod Walks
