mod Products
mod Keeping
mod HeadRange
mod HeadMotion
mod DomeRange
