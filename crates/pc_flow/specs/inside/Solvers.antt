-- What the fields of a solver say.
use Rattle.pc_flow.specs.declared.solver.Solver.TheInside.{Inside}
use Rattle.pc_flow.specs.Courses.{Course}
use Rattle.pc_flow.specs.inside.Courses.{IsOnCourse}

-- the course of the fields
abbrev pub course_of : Inside → Course
course_of s = record {
  net = s.net.now;
  board = s.board;
  longest = s.longest;
  shortest = s.shortest;
  cost = s.cost;
  slope = s.slope;
  fall = s.fall;
  given = s.given;
}

-- what holds of every solver
pub record IsOnCourseInside (s : Inside) : Type 0 where
  pub on_course : IsOnCourse (course_of s)
