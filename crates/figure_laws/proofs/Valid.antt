-- Valid figures: two of them, and the areas of one alone.
pub mod Alone
pub mod Pairs
