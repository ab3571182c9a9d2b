-- A call's answer to a test, as `if !answer` finds it. Assumes nothing.
use mathlib.Core.Bool.{Bool, true, false}
use mathlib.Core.Path.{◌≡◌, sym, ◌∙◌}

module _ {answer test : Bool} (is : answer ≡ test) where
  pub passed : answer ≡ true → test ≡ true
  passed n = sym is ∙ n

  pub failed : answer ≡ false → test ≡ false
  failed n = sym is ∙ n
