-- Places of a list that hold a stretch of a function, and what a loop that fills places has done.
use Rattle.std.specs.Prelude.{◌≡◌, ◌≢◌, List, ℕ, ◌+◌, ◌<◌, length, get_or}

-- the first n places of l hold f a, …, f (a + n - 1)
pub record Held {A : Type 0} (d : A) (f : ℕ → A) (a n : ℕ) (l : List A) : Type 0 where
  pub is : (k : ℕ) → k < n → get_or l k d ≡ f (a + k)

-- places place 0, …, place (n - 1) hold f 0, …, f (n - 1), and every other place what it held
pub record Written {A : Type 0} (d : A) (place : ℕ → ℕ) (f : ℕ → A) (n : ℕ) (old new : List A) : Type 0 where
  pub same : length new ≡ length old
  pub done : (i : ℕ) → i < n → get_or new (place i) d ≡ f i
  pub kept : (j : ℕ) → ((i : ℕ) → i < n → j ≢ place i) → get_or new j d ≡ get_or old j d
