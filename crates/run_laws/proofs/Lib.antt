mod Turns
mod Forms
mod Answered
mod Only
mod Shapes
mod Maps
