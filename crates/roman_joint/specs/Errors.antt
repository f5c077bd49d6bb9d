-- The numbers of the errors of a joint.
use Rattle.std.specs.Prelude.{ℕ}
use Rattle.roman_joint.specs.declared.error.JointError.{JointError}
use Rattle.roman_joint.specs.declared.error.JointError.TheVariants.{Limit, Memory}
use Rattle.roman_joint.specs.declared.error.SeatError.{SeatError}
use Rattle.roman_joint.specs.declared.error.SeatError.TheVariants as seat

-- the number of an error of building a joint
abbrev pub joint_error_number : JointError → ℕ
joint_error_number Limit = 1
joint_error_number Memory = 2

-- the number of an error of adding a service
abbrev pub seat_error_number : SeatError → ℕ
seat_error_number seat.Full = 1
seat_error_number seat.Limit = 2
