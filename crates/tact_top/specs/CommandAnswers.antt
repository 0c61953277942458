-- What each command that reads an input makes of it, and what each that draws writes.
use Rattle.std.specs.Prelude.{ℕ, List}
use Rattle.run_work.specs.Shelves.{ShelfEnd}
use Rattle.tact_top.specs.declared.words.Drawing.{Drawing}
use Rattle.tact_top.specs.declared.words.Drawing.TheVariants.{Drill, Primary, Roam, Sales}
use Rattle.tact_top.specs.declared.words.Reading.{Reading}
use Rattle.tact_top.specs.declared.words.Reading.TheVariants.{Play, Check, Pack, Unpack, Run}
use Rattle.tact_top.specs.Answers.{Asking, Faulting}
use Rattle.tact_top.specs.Checked.{IsChecked}
use Rattle.tact_top.specs.DrillText.{drill_text}
use Rattle.tact_top.specs.PrimaryText.{primary_text}
use Rattle.tact_top.specs.RecordForms.{IsByteFault, IsPacked, IsRecordFault, IsTextFault, IsUnpacked}
use Rattle.tact_top.specs.RoamText.{roam_text}
use Rattle.tact_top.specs.Running.{AsksOfRun, IsLoadFault}
use Rattle.tact_top.specs.SalesText.{sales_text}
use Rattle.tact_top.specs.ScriptForm.{IsPlayed, IsScriptFault}

-- what an input asks of it, by what the shelf came to
abbrev pub asks : ShelfEnd → Reading → Asking
asks shelf Play = IsPlayed
asks shelf Check = IsChecked
asks shelf Pack = IsPacked
asks shelf Unpack = IsUnpacked
asks shelf (Run tries) = AsksOfRun shelf tries

-- where an input isn't in its grammar
abbrev pub faults : Reading → Faulting
faults Play = IsScriptFault
faults Check = IsRecordFault
faults Pack = IsTextFault
faults Unpack = IsByteFault
faults (Run tries) = IsLoadFault

-- what is written of a number
abbrev pub text_of : Drawing → ℕ → List ℕ
text_of Drill = drill_text
text_of Primary = primary_text
text_of Roam = roam_text
text_of Sales = sales_text
