-- The three clauses that speak of all points, by what edges enter.
pub mod OverAllPoints
pub mod Laws
