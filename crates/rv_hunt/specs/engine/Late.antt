-- Files that are made at a hunt's end. Where one fails, all others are made and the text is written.
use Rattle.std.specs.Prelude.{◌≡◌, ℕ, Bool, false, IfSome, List, Option}
use Rattle.rv_json.specs.Object.{IsObject, Member}
use Rattle.rv_markup.specs.Markup.{IsDocument}
use Rattle.rv_markup.specs.declared.markup.Fact.{Fact}

-- a page with these bytes is well formed and shows these facts
pub record IsPage (Holds : List ℕ → Type 0) (facts : List Fact) : Type 0 where
  pub page : List ℕ
  pub is_document : IsDocument page facts
  pub held : Holds page

-- a page is made, unless making it has failed
abbrev pub IfPaged : {F : Type 0} → (F → Bool) → (F → List ℕ → Type 0) → Option F → List Fact → Type 0
IfPaged has_failed Holds page facts = IfSome page (λ file. has_failed file ≡ false → IsPage (Holds file) facts)

-- a list with these bytes is made, unless making it has failed
abbrev pub IfListed : {F : Type 0} → (F → Bool) → (F → List ℕ → Type 0) → Option F → List ℕ → Type 0
IfListed has_failed Holds list bytes = IfSome list (λ file. has_failed file ≡ false → Holds file bytes)

-- an object with these bytes tells these members
pub record IsWritten (Holds : List ℕ → Type 0) (facts : List Member) : Type 0 where
  pub text : List ℕ
  pub is_object : IsObject text facts
  pub held : Holds text

-- an object is made, unless making it has failed
abbrev pub IfWritten : {F : Type 0} → (F → Bool) → (F → List ℕ → Type 0) → Option F → List Member → Type 0
IfWritten has_failed Holds json facts = IfSome json (λ file. has_failed file ≡ false → IsWritten (Holds file) facts)
