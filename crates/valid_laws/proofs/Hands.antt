-- The germs of a clean area beside its edges, by their hands.
pub mod AfterWay
