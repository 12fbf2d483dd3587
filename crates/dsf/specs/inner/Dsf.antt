-- A byte of a channel.
use Rattle.std.specs.Prelude.{List, ℕ}
use Rattle.dsf.specs.Dsf.{channels, bits_per_sample, sample_count, sample_byte, file_data}

-- ---- frames in our layout, of data whose byte j is `read j`

module _ (file : List ℕ) where
  abbrev pub file_byte : ℕ → ℕ → ℕ
  file_byte = sample_byte (file_data file) (channels file) (bits_per_sample file) (sample_count file)
