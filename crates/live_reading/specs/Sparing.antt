-- Room for the answers of all whole lines that were taken.
use Rattle.std.specs.Prelude.{◌≡◌, ◌+◌, ◌<◌, ◌≤◌, ℕ, Option, None, length, Vec, vec_len, vec_capacity}
use Rattle.std.specs.declared.alloc.Global.{Global}
use Rattle.served_lines.specs.declared.answer.Answer.{Answer}
use Rattle.input_front.specs.Front.{whole_lines}
use Rattle.input_front.specs.Taken.{IntakeView}
use Rattle.live_reading.specs.declared.stop.Stop.{Stop}

-- Beside the answers and so many more there is room for those of all whole lines that were taken and not read, and for one more: the
-- rest of an input that ends can be a line.
abbrev pub HasSpare : IntakeView → Vec Answer Global → ℕ → Type 0
HasSpare v answers noted = vec_len answers + noted + length (whole_lines v.taken) < vec_capacity answers + v.lines

-- a byte more was read or taken
abbrev pub HasMoved : IntakeView → IntakeView → Type 0
HasMoved old new = old.read + length old.taken < new.read + length new.taken

-- The answers stand as they did, and there is room for so many more. Where the batch goes on, there is room for those of all whole
-- lines too.
pub record KeepsSpare (old new : IntakeView) (answers_old answers_new : Vec Answer Global) (noted : ℕ) (why : Option Stop) : Type 0 where
  pub items : answers_new.items ≡ answers_old.items
  pub len : vec_len answers_new ≡ vec_len answers_old
  pub room : vec_len answers_new + noted ≤ vec_capacity answers_new
  pub spare : why ≡ None → HasSpare new answers_new noted
  pub moves : why ≡ None → HasMoved old new
