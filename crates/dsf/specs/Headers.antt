-- A header, made of its fields.
use Rattle.std.specs.Prelude.{List, ◌++◌, ℕ}
use Rattle.text.specs.Text.{text}
use Rattle.text.specs.Bytes.{bytes}

-- the 92 bytes before the data; of the fields that vary, each as its bytes, but for the bits per sample
unfoldable pub header_with : List ℕ → List ℕ → List ℕ → ℕ → List ℕ → List ℕ → List ℕ
header_with stated pointer pair bits samples size =
    text "DSD " ++ (bytes 8 28 ++ (stated ++ (pointer
    ++ (text "fmt " ++ (bytes 8 52 ++ (bytes 4 1 ++ (bytes 4 0 ++ (pair ++ (bytes 4 2822400 ++ (bytes 4 bits ++ (samples ++ (bytes 4 4096 ++ (bytes 4 0
    ++ (text "data" ++ size))))))))))))))
