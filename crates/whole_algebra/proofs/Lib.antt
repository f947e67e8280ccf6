pub mod Laws
pub mod Polynomials
pub mod Signs
pub mod Certificates
pub mod Computed
pub mod Divisors
pub mod Comparisons
