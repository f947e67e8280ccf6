pub mod Edges
pub mod Even
pub mod Stays
