-- What `read_all` gives of a name.
use Rattle.std.specs.Prelude.{◌≡◌, ℕ, ◌≤◌, List, length, take, Bool, nat_lt}

-- the first bytes up to the limit, and whether there are more
pub record IsWhole (content : List ℕ) (limit : ℕ) (bytes : List ℕ) (cut : Bool) : Type 0 where
  pub bytes_are : bytes ≡ take limit content
  pub cut_is : cut ≡ nat_lt limit (length content)

-- the bytes are a prefix of the content
pub record IsBytePrefix (content bytes : List ℕ) : Type 0 where
  pub within : length bytes ≤ length content
  pub same : bytes ≡ take (length bytes) content
