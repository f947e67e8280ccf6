pub mod Laws
mod BareAreas
mod Combs
mod Exchange
mod Joints
mod Sides
mod SoundFigures
mod SoundRings
mod Steps
