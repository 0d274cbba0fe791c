-- CSV texts, and the writer of one.
use Rattle.std.specs.Prelude.{◌≡◌, ℕ, false, List, Some, flat_map, Vec}
use Rattle.std.specs.declared.alloc.Global.{Global}
use Rattle.csv.specs.declared.writer.Writer.{Writer}
use Rattle.csv.specs.Writing.{row_text, default_writer, text_written, fields_written, has_written, writer_setup}

-- the rows one after another, as the default writer of the `csv` crate writes them
abbrev pub csv_text : List (List (List ℕ)) → List ℕ
csv_text rows = flat_map (row_text default_writer) rows

-- the writer has written this text and stands between two rows
pub record HoldsText (table : Writer (Vec ℕ Global)) (text : List ℕ) : Type 0 where
  pub written : text_written (λ v. Some v.items) table ≡ Some text
  pub between : fields_written table ≡ 0
  pub clean : has_written table ≡ false
  pub setup : writer_setup table ≡ default_writer
