-- What comes of reading and admitting one side.
use Rattle.std.proofs.Common.{◌≡◌, ℕ, List, codes, refl, sym, subst, arith}
use Rattle.im_matrix.specs.declared.Which.{Which}
use Rattle.geosop_io.specs.Inputs.{InputsSeen}
use Rattle.geosop_line.specs.declared.config.Source.{Source}
use Rattle.geosop_line.specs.declared.config.Source.TheVariants as source
use Rattle.geosop_run.specs.declared.status.Refusal.{Refusal}
use Rattle.geosop_run.specs.declared.status.Refusal.TheVariants as refusal
use Rattle.geosop_run.specs.declared.sources.SideFault.{SideFault}
use Rattle.geosop_run.specs.declared.sources.SideFault.TheVariants as fault
use Rattle.geosop_run.specs.Sources.{IsRefusalOf}
use Rattle.geosop_run.specs.Asking.{IfNamed, AreBytesFrom, IsTextFault, IsSideFault, IsReadToEnd, IsReadFor, side_of}

-- a refusal is of its own side
pub side_is : (scale : ℕ) (side : Which) (bytes : List ℕ) (found : Refusal) → IsRefusalOf scale side bytes found → side_of found ≡ side
side_is scale side bytes (refusal.TooLong of_side) h = h.0
side_is scale side bytes (refusal.Text of_side number kind place) h = h.0
side_is scale side bytes (refusal.Shape of_side number kind element) h = h.0

-- the refusal of a side's bytes, where these are told
told_refusal : (scale : ℕ) (side : Which) (bytes told : List ℕ) (found : Refusal) → bytes ≡ told → IsRefusalOf scale side bytes found
    → IsRefusalOf scale (side_of found) told found
told_refusal scale side bytes told found e h =
    subst (λ (s : Which). IsRefusalOf scale s told found) (sym (side_is scale side bytes found h))
    (subst (λ all. IsRefusalOf scale side all found) e h)

-- how far a side was read that has a refusal by its text
read_for : (scale : ℕ) (side : Which) (from : Source) (bytes : List ℕ) (found : Refusal) (before after : InputsSeen)
    → AreBytesFrom side from before after bytes
    → IsRefusalOf scale side bytes found → IfNamed from (λ name. IsReadFor found name after)
read_for scale side from bytes (refusal.TooLong of_side) before after h k = absurd (omega (arith, h.within, k.1))
read_for scale side from bytes (refusal.Text of_side number kind place) before after h k =
    subst (λ (s : Which). IfNamed from (λ name. IsReadToEnd s name after)) (sym k.0) h.read
read_for scale side from bytes (refusal.Shape of_side number kind element) before after h k =
    subst (λ (s : Which). IfNamed from (λ name. IsReadToEnd s name after)) (sym k.0) h.read

-- why the bytes of a side gave no figures is why the side gave none
pub figures_fault : (scale : ℕ) (side : Which) (from : Source) (bytes : List ℕ) (before after : InputsSeen) (found : SideFault)
    → AreBytesFrom side from before after bytes
    → IsTextFault scale side bytes found → IsSideFault scale side from before after found
figures_fault scale side from bytes before after (fault.Refused found) h k = (
  side_is scale side bytes found k,
  record {
    read = read_for scale side from bytes found before after h k;
    refusal = λ told t. told_refusal scale side bytes told found (h.told told t) k;
  },
  h.uncounted,
)
figures_fault scale side from bytes before after fault.ReadFault h k = absurd k
figures_fault scale side from bytes before after fault.NoMemory h k = h.uncounted

-- why a text that is a word of its own gave no bytes is why its side gave no figures
pub text_fault : (scale : ℕ) (side : Which) (word : List ℕ) (seen : InputsSeen) (found : SideFault) → IsTextFault scale side word found
    → IsSideFault scale side (source.Text word) seen seen found
text_fault scale side word seen (fault.Refused found) k = (
  side_is scale side word found k,
  record { read = tt; refusal = λ told t. told_refusal scale side word told found (cc) k },
  refl,
)
text_fault scale side word seen fault.ReadFault k = absurd k
text_fault scale side word seen fault.NoMemory k = refl

-- why a file named `stdin` would give no figures is why standard input gives none
pub stdin_fault : (scale : ℕ) (side : Which) (name : List ℕ) (before after : InputsSeen) (found : SideFault) → name ≡ codes "stdin"
    → IsSideFault scale side (source.File name) before after found → IsSideFault scale side source.Stdin before after found
stdin_fault scale side name before after found is h =
    by_fault found (subst (λ (word : List ℕ). IsSideFault scale side (source.File word) before after found) is h)
  where
    by_fault : (found : SideFault) → IsSideFault scale side (source.File (codes "stdin")) before after found
        → IsSideFault scale side source.Stdin before after found
    by_fault (fault.Refused found) k = (k.0, record { read = k.1.read; refusal = k.1.refusal }, k.2)
    by_fault fault.ReadFault k = record { name = k.name; named = k.named; asked = k.asked; counted = k.counted }
    by_fault fault.NoMemory k = k
