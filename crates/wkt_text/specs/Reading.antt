-- The steps of the reader. Nothing that the crate promises is said by these words: see Faults.
use Rattle.std.specs.Prelude.{◌≡◌, ℕ, IsTrue, Some, None, Ok, Err, IsOk, ◌⊎◌}
use Rattle.wkt_text.specs.declared.token.Token.{Token}
use Rattle.wkt_text.specs.declared.state.Role.{Role}
use Rattle.wkt_text.specs.declared.state.Control.{Control}
use Rattle.wkt_text.specs.declared.control.WktKind.{WktKind}
use Rattle.wkt_text.specs.declared.build.Build.{Build}
use Rattle.wkt_text.specs.declared.build.Stop.{Stop}
use Rattle.wkt_text.specs.declared.build.Stop.TheVariants as stop
use Rattle.wkt_text.specs.declared.read.WktFault.{WktFault}
use Rattle.wkt_text.specs.declared.read.WktFault.TheVariants as fault
use Rattle.wkt_text.specs.Machine.{advance, refused_kind}
use Rattle.wkt_text.specs.Building.{act, takes_memory}

-- The token is taken for its purpose.
pub record IsTaken (c : Control) (b : Build) (t : Token) (c' : Control) (b' : Build) : Type 0 where
  pub role : Role
  pub next : advance c t ≡ Some (role, c')
  pub done : act b role t ≡ Ok b'

-- The token breaks a rule.
pub record IsBroken (c : Control) (b : Build) (t : Token) (kind : WktKind) : Type 0 where
  pub role : Role
  pub control : Control
  pub next : advance c t ≡ Some (role, control)
  pub stopped : act b role t ≡ Err kind

-- The token isn't taken, and this is its fault.
abbrev pub IsFaulty : Control → Build → Token → WktKind → Type 0
IsFaulty c b t kind = ((advance c t ≡ None) × (kind ≡ refused_kind c t)) ⊎ IsBroken c b t kind

-- The token breaks no rule, and takes memory.
pub record IsWanting (c : Control) (b : Build) (t : Token) : Type 0 where
  pub role : Role
  pub control : Control
  pub next : advance c t ≡ Some (role, control)
  pub kept : IsOk (act b role t)
  pub takes : IsTrue (takes_memory role)

abbrev pub FailsAt : WktFault → ℕ → Control → Build → Token → Type 0
FailsAt (fault.Bad kind place) start c b t = (place ≡ start) × IsFaulty c b t kind
FailsAt fault.NoMemory start c b t = IsWanting c b t

-- The fault of a reading that stops so at a place.
abbrev pub fault_at : ℕ → Stop → WktFault
fault_at place (stop.Fault kind) = fault.Bad kind place
fault_at place stop.NoMemory = fault.NoMemory
