-- That quotient and remainder are the ones meant, and the laws that the proofs of `numbers` share.
pub mod Division
pub mod Machine
pub mod Rounding
pub mod Cases
pub mod Laws
