-- Statuses: their codes and their fault lines.
use Rattle.std.specs.Prelude.{ℕ, List, [], ◌∷◌, ◌++◌, codes, decimal, Option, Some, None, Result, Ok, Err}
use Rattle.std.specs.List.{concat}
use Rattle.im_matrix.specs.declared.Which.{Which}
use Rattle.im_matrix.specs.declared.Which.TheVariants.{A, B}
use Rattle.wkt_text.specs.declared.control.WktKind.{WktKind}
use Rattle.wkt_text.specs.declared.control.WktKind.TheVariants.{Syntax, UnknownType, NotWhole, TooWide, LongNumber, Ragged, RingOpen}
use Rattle.wkt_text.specs.declared.control.WktKind.TheVariants.{RingShort, LineShort, Deep, TooMany}
use Rattle.geom_valid.specs.declared.kinds.InvalidKind.{InvalidKind}
use Rattle.geom_valid.specs.declared.kinds.InvalidKind.TheVariants.{TooFewPoints, RingCross, RingsShareEdge, HoleOutside, HolesOverlap}
use Rattle.geom_valid.specs.declared.kinds.InvalidKind.TheVariants.{Disconnected, ElementsShareEdge, ElementsOverlap}
use Rattle.geosop_line.specs.declared.config.LineFault.{LineFault}
use Rattle.geosop_line.specs.declared.config.LineFault.TheVariants as words
use Rattle.geosop_line.specs.declared.config.UsageFault.{UsageFault}
use Rattle.geosop_line.specs.declared.config.UsageFault.TheVariants as usage
use Rattle.geosop_run.specs.declared.pairs.PairFault.{PairFault}
use Rattle.geosop_run.specs.declared.pairs.PairFault.TheVariants as pair
use Rattle.geosop_run.specs.declared.sources.SideFault.{SideFault}
use Rattle.geosop_run.specs.declared.sources.SideFault.TheVariants as side
use Rattle.geosop_run.specs.declared.status.Refusal.{Refusal}
use Rattle.geosop_run.specs.declared.status.Refusal.TheVariants as refusal
use Rattle.geosop_run.specs.declared.status.Status.{Status}
use Rattle.geosop_run.specs.declared.status.Status.TheVariants as status

-- The exit status of each status.
abbrev pub code_of : Status → ℕ
code_of status.Ok = 0
code_of (status.Usage fault) = 1
code_of (status.Refused refusal) = 2
code_of status.ReadFault = 3
code_of status.WriteFault = 4
code_of status.NoMemory = 5

-- The status of a run that a fault of its words ends.
abbrev pub status_of_words : LineFault → Status
status_of_words (words.Usage fault) = status.Usage fault
status_of_words words.NoMemory = status.NoMemory

-- The status of a run that a side's fault ends.
abbrev pub status_of_side : SideFault → Status
status_of_side (side.Refused refusal) = status.Refused refusal
status_of_side side.ReadFault = status.ReadFault
status_of_side side.NoMemory = status.NoMemory

-- The status of a run that a fault in the pairs ends.
abbrev pub status_of_pairs : PairFault → Status
status_of_pairs pair.WriteFault = status.WriteFault
status_of_pairs pair.NoMemory = status.NoMemory

-- The status of a run: Ok, or the one that ended it.
abbrev pub status_of : {T : Type 0} → Result T Status → Status
status_of (Ok done) = status.Ok
status_of (Err ended) = ended

-- The letter of a side.
abbrev pub side_name : Which → List ℕ
side_name A = codes "A"
side_name B = codes "B"

-- The name of a text's fault.
abbrev pub kind_name : WktKind → List ℕ
kind_name Syntax = codes "Syntax"
kind_name UnknownType = codes "UnknownType"
kind_name NotWhole = codes "NotWhole"
kind_name TooWide = codes "TooWide"
kind_name LongNumber = codes "LongNumber"
kind_name Ragged = codes "Ragged"
kind_name RingOpen = codes "RingOpen"
kind_name RingShort = codes "RingShort"
kind_name LineShort = codes "LineShort"
kind_name Deep = codes "Deep"
kind_name TooMany = codes "TooMany"

-- The name of a figure's fault.
abbrev pub invalid_name : InvalidKind → List ℕ
invalid_name TooFewPoints = codes "TooFewPoints"
invalid_name RingCross = codes "RingCross"
invalid_name RingsShareEdge = codes "RingsShareEdge"
invalid_name HoleOutside = codes "HoleOutside"
invalid_name HolesOverlap = codes "HolesOverlap"
invalid_name Disconnected = codes "Disconnected"
invalid_name ElementsShareEdge = codes "ElementsShareEdge"
invalid_name ElementsOverlap = codes "ElementsOverlap"

-- The name of a usage fault.
abbrev pub usage_name : UsageFault → List ℕ
usage_name usage.Line = codes "Line"
usage_name usage.Sample = codes "Sample"
usage_name usage.Sources = codes "Sources"
usage_name usage.Operation = codes "Operation"
usage_name usage.Argument = codes "Argument"
usage_name (usage.BadMatch place) = codes "Pattern"
usage_name usage.RuleName = codes "Rule"
usage_name usage.Threads = codes "Threads"
usage_name usage.Scale = codes "Scale"

-- The place of a usage fault, where it has one.
abbrev pub place_of : UsageFault → Option ℕ
place_of usage.Line = None
place_of usage.Sample = None
place_of usage.Sources = None
place_of usage.Operation = None
place_of usage.Argument = None
place_of (usage.BadMatch place) = Some place
place_of usage.RuleName = None
place_of usage.Threads = None
place_of usage.Scale = None

-- How a place is told, where there is one.
abbrev pub place_text : Option ℕ → List ℕ
place_text (Some place) = codes " at " ++ decimal place
place_text None = []

-- A line feed.
abbrev pub line_feed : List ℕ
line_feed = 10 ∷ []

-- The fault line of a command line, piece by piece.
abbrev pub usage_pieces : UsageFault → List (List ℕ)
usage_pieces fault = codes "geosop: usage fault: " ∷ usage_name fault ∷ place_text (place_of fault) ∷ line_feed ∷ []

-- The fault line of a refusal, piece by piece.
abbrev pub refusal_pieces : Refusal → List (List ℕ)
refusal_pieces (refusal.TooLong side) = codes "geosop: " ∷ side_name side ∷ codes ": TooLong" ∷ line_feed ∷ []
refusal_pieces (refusal.Text side number kind place) =
    codes "geosop: " ∷ side_name side ∷ codes " " ∷ decimal number ∷ codes ": "
    ∷ kind_name kind ∷ codes " at " ∷ decimal place ∷ line_feed ∷ []
refusal_pieces (refusal.Shape side number kind element) =
    codes "geosop: " ∷ side_name side ∷ codes " " ∷ decimal number ∷ codes ": "
    ∷ invalid_name kind ∷ codes " in element " ∷ decimal element ∷ line_feed ∷ []

-- The fault line of a status, piece by piece; Ok has none.
abbrev pub fault_pieces : Status → List (List ℕ)
fault_pieces status.Ok = []
fault_pieces (status.Usage fault) = usage_pieces fault
fault_pieces (status.Refused refusal) = refusal_pieces refusal
fault_pieces status.ReadFault = codes "geosop: read fault" ∷ line_feed ∷ []
fault_pieces status.WriteFault = codes "geosop: write fault" ∷ line_feed ∷ []
fault_pieces status.NoMemory = codes "geosop: no memory" ∷ line_feed ∷ []

-- The fault line of a status.
abbrev pub fault_line : Status → List ℕ
fault_line ended = concat (fault_pieces ended)
