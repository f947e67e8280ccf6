mod Answering
mod Commands
mod FirstFaults
mod NumberTexts
mod OneAnswer
mod PatternFaults
mod Values
mod Words
