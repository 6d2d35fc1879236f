-- How much room a line needs for a report, so that it can be written without an allocation. For proofs only.
use Rattle.std.specs.Prelude.{ℕ, ◌<◌, ◌≤◌, ◌+◌, ◌*◌, List, Result, OnErr, OnOk, String, length, map}
use Rattle.std.specs.Prelude.{string_capacity, string_len}
use Rattle.std.specs.List.{concat}
use Rattle.std.specs.declared.alloc.Global.{Global}
use Rattle.std.specs.declared.alloc.AllocError.{AllocError}
use Rattle.fr_route.specs.Json.{more_json, no_more_json, report_json}
use Rattle.fr_route.specs.Pushing.{changes_of}
use Rattle.fr_route.specs.Texts.{longest_report, report_text}
use Rattle.fr_route.specs.declared.change.Report.{Report}
use Rattle.fr_route.specs.declared.form.Form.{Form}
use Rattle.fr_route.specs.declared.form.Form.TheVariants.{Text, Json, JsonWithWays}
use Rattle.fr_tables.specs.declared.hop.Hop.{Hop}
use Rattle.fr_ways.specs.Changes.{Noted}

-- A text of at most so many bytes was appended to the line, or the line had no room for so many.
pub record Fits (before after : String Global) (done : Result (Unit {0}) AllocError) (most : ℕ) : Type 0 where
  pub length : OnOk done (string_len after ≤ string_len before + most)
  pub capacity : string_capacity before ≤ string_capacity after
  pub full : OnErr done (string_capacity before < string_len before + most)

-- the most bytes for the pushes of a phase: a number and a comma take up to eleven
abbrev pub lists_size : List (ℕ × List ℕ) → ℕ
lists_size pushes = 16 * length pushes + 11 * length (concat (map (λ p. p.1) pushes))

-- the most bytes of a report with so many changed numbers, and with these pushes
abbrev pub report_size : Form → ℕ → Noted → ℕ
report_size Text changed noted = longest_report
report_size Json changed noted = 80 + 24 * changed
report_size JsonWithWays changed noted = 100 + 24 * changed + (lists_size noted.shrink + lists_size noted.grow)

-- the room for a report on a network of so many nodes and links
abbrev pub report_room : Form → ℕ → ℕ → ℕ
report_room Text nodes links = longest_report
report_room Json nodes links = 80 + 24 * nodes
report_room JsonWithWays nodes links = 100 + 56 * nodes + 22 * links

-- the report of a round, with the changed numbers, and all hops after it. In JSON with ways, also with these pushes
abbrev pub report_in : Form → Report → List ℕ → List Hop → Noted → List ℕ
report_in Text report changed hops noted = report_text report.turned report.cut
report_in Json report changed hops noted = report_json report.turned report.cut (changes_of hops changed) no_more_json
report_in JsonWithWays report changed hops noted =
    report_json report.turned report.cut (changes_of hops changed) (more_json noted.shrink noted.grow)
