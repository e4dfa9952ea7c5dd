-- What each kind of access is. The rules know the kinds by these words alone.
-- SDM 3A, "Determination of Access Rights": user-mode and supervisor-mode accesses, explicit and implicit ones; data reads,
-- data writes and instruction fetches.
use Rattle.std.specs.Prelude.{Bool, true, false, not}
use Rattle.paging_model.specs.declared.access.Access.{Access}
use Rattle.paging_model.specs.declared.access.Access.TheVariants.{Ur, Uw, Ux, Sr, Sw, Sx, Ir, Iw}

-- whether an access is the user's, implicit, a write, a fetch
pub record AccessKind : Type 0 where
  pub user : Bool
  pub implicit : Bool
  pub write : Bool
  pub fetch : Bool

-- the table of the kinds
abbrev pub access_kind : Access → AccessKind
access_kind Ur = record { user = true; implicit = false; write = false; fetch = false }
access_kind Uw = record { user = true; implicit = false; write = true; fetch = false }
access_kind Ux = record { user = true; implicit = false; write = false; fetch = true }
access_kind Sr = record { user = false; implicit = false; write = false; fetch = false }
access_kind Sw = record { user = false; implicit = false; write = true; fetch = false }
access_kind Sx = record { user = false; implicit = false; write = false; fetch = true }
access_kind Ir = record { user = false; implicit = true; write = false; fetch = false }
access_kind Iw = record { user = false; implicit = true; write = true; fetch = false }

-- made in user mode
abbrev pub is_user : Access → Bool
is_user access = (access_kind access).user

-- made in supervisor mode, or implicitly
abbrev pub is_supervisor : Access → Bool
is_supervisor access = not (is_user access)

-- made by the processor for itself, as of a descriptor table
abbrev pub is_implicit : Access → Bool
is_implicit access = (access_kind access).implicit

-- a data write
abbrev pub is_write : Access → Bool
is_write access = (access_kind access).write

-- an instruction fetch
abbrev pub is_fetch : Access → Bool
is_fetch access = (access_kind access).fetch

-- a data read or a data write
abbrev pub is_data : Access → Bool
is_data access = not (is_fetch access)
