mod Form
mod Known
mod Asked
mod More
