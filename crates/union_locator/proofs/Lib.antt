mod AreaEdges
mod AreaSections
mod BeyondShells
mod BoxLists
mod Items
pub mod Laws
mod MeetingPlaces
mod NearAreas
mod NearEdges
mod NearShells
mod OnLines
mod RingBoxes
mod Scans
mod Sectors
mod SingleAreas
mod WalkRound
