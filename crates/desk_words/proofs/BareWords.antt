-- Words without two dashes alone are read by `clap`.
use Rattle.std.proofs.Common.{◌≡◌, false, List, ℕ, refl}
use Rattle.desk_words.specs.Asks.{has_dashes, command_asked, asked_by}

pub bare : (words : List (List ℕ)) → has_dashes words ≡ false → asked_by words ≡ command_asked words
bare words none = rw none refl
