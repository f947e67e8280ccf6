-- Even from p to q: each edge holds all points of the way or none.
pub mod Even
pub mod Germs
