mod OwnRoot
mod PrioritySet
mod Failing
mod NoGreater
mod PrioritiesSet
mod Needed
mod Said
