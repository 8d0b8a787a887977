mod Judges
mod Changes
mod Endings
mod Takes
