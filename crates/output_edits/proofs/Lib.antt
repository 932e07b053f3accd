mod Lesser
mod Below
mod Placed
