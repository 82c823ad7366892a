-- The version of the library, which the contract of `sinewhopa_version` cites.
use Rattle.std.specs.Prelude.{ℕ, ◌+◌, ◌*◌}

-- rises only where states that an earlier major version stored are no longer read; also the version byte of a state
abbrev pub major : ℕ
major = 1

-- rises with every landing that adds a call, a kind or a number; 7: requests S-1 to S-7
abbrev pub minor : ℕ
minor = 7

-- both as one number
abbrev pub version : ℕ
version = major * 256 + minor
