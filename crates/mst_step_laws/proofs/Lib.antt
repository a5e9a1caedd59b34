mod Courses
mod CourseThere
mod ReachTold
mod StepThere
pub mod Unkept
mod StepTogether
