-- A text that is written at the start of a lent area.
use Rattle.std.specs.Prelude.{◌≡◌, ℕ, ◌+◌, ◌≤◌, List, length}
use Rattle.report.specs.declared.text.Text.{Text}
use Rattle.report.specs.Lines.{Placed}

-- the area has room for the bytes after the text
abbrev pub HasRoom : Text → List ℕ → Type 0
HasRoom text bytes = text.len + length bytes ≤ length text.area.now

-- the text is in the same area, of the same length, and has the bytes at its end, and the rest of the area is as it was
pub record Extends (old : Text) (bytes : List ℕ) (new : Text) : Type 0 where
  pub same_area : new.area.ghost_name ≡ old.area.ghost_name
  pub long : length new.area.now ≡ length old.area.now
  pub placed : Placed old.area.now old.len bytes new.area.now new.len
