-- What is far from the common part of two figures shows no more than their envelopes tell.
pub mod Bare
pub mod Shows
