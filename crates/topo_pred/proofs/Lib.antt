pub mod Laws
pub mod Matrices
pub mod CellTests
pub mod KnownTests
pub mod NamesKnown
pub mod PatternsKnown
pub mod QueriesKnown
pub mod Feeds
