mod AskingCells
mod Comparisons
mod Knowing
mod NewSessions
