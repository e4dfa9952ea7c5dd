-- What was true of a space before a write, of which these patches are what it changes.
use Rattle.std.specs.Prelude.{ℕ, Bool, List}
use Rattle.paging_model.specs.Memory.{Memory}
use Rattle.kept_laws.specs.Patches.{ArePatches}
use Rattle.kept_laws.specs.WrittenPlaces.{AreAlikeBut}
use Rattle.kept_laws.specs.declared.patches.Patch.{Patch}
use Rattle.space_map.specs.PatchWalks.{AreOfOwnUses}
use Rattle.space_map.specs.TrueSpaces.{IsTrueOf}
use Rattle.space_map.specs.declared.space.Space.{Space}

-- the space was true of a memory that differs from this one at most in written places, and the patches have what those
-- change, each by a table of its own
pub record WasTrueBut (space : Space) (patches : List Patch) (memory : Memory) : Type 0 where
  pub old : Memory
  pub written : ℕ → Bool
  pub is_true : IsTrueOf old space
  pub alike : AreAlikeBut written old memory
  pub are : ArePatches old written space.key.settings space.key.root patches
  pub own : AreOfOwnUses patches
