-- When telling the steps of a change ends with status 0.
use Rattle.std.specs.Prelude.{◌≡◌, List}
use Rattle.mst_tool.specs.engine.Steps.{Step, refusals_of, lacks_of}
use Rattle.mst_verdict.specs.declared.stepping.Course.{Course}

-- No line of the script is refused, be it for want of memory, none of the change or of the policy is, no step cuts a VID or breaks a line of the
-- policy, and the last network keeps each line of it
pub record IsWell (steps : List Step) (course : Course) : Type 0 where
  pub accepted : refusals_of steps ≡ 0
  pub served : lacks_of steps ≡ 0
  pub unrefused : course.refused ≡ 0
  pub read : course.unread ≡ 0
  pub uncut : course.cutting ≡ 0
  pub unbroken : course.failing ≡ 0
  pub kept : course.unkept ≡ 0
