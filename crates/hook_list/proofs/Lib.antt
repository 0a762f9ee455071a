mod InOrder
mod Unbroken
