-- What a session file holds, its text, and the rules.
use Rattle.std.specs.Prelude.{ℕ, ◌<◌, ◌≤◌, List, [], ◌∷◌, ◌++◌, map, length}
use Rattle.std.specs.List.{AllByRecursion}
use Rattle.mesh.specs.declared.link.Link.{Link}
use Rattle.mesh.specs.Rules.{InRange, EndsDiffer, PairsOnce}
use Rattle.vocab.specs.declared.kinds.Table.TheVariants.{Settings, Links, Steps}
use Rattle.vocab.specs.declared.kinds.Setting.{Setting}
use Rattle.vocab.specs.declared.kinds.Step.{Step}
use Rattle.format.specs.Columns.{table}
use Rattle.format.specs.Tables.{setting_values, link_values, step_values}
use Rattle.vocab.specs.Words.{names}

pub record Content : Type 0 where
  pub setting : Setting
  pub links : List Link
  pub steps : List Step

-- the text of each table, its columns in the order o
abbrev pub setting_text : List ℕ → Setting → List ℕ
setting_text o h = table o (names Settings) (setting_values h ∷ [])

abbrev pub links_text : List ℕ → List Link → List ℕ
links_text o ls = table o (names Links) (map link_values ls)

abbrev pub steps_text : List ℕ → List Step → List ℕ
steps_text o ss = table o (names Steps) (map step_values ss)

-- the text of a session, with the columns of its three tables in these orders
abbrev pub text : List ℕ → List ℕ → List ℕ → Content → List ℕ
text o p q c = (setting_text o c.setting ++ links_text p c.links) ++ steps_text q c.steps

-- the text in the standard order
abbrev pub standard : Content → List ℕ
standard c = text (0 ∷ 1 ∷ 2 ∷ 3 ∷ 4 ∷ []) (0 ∷ 1 ∷ 2 ∷ 3 ∷ []) (0 ∷ 1 ∷ []) c

-- the numbers of the settings, each by itself
pub record SettingInRange (h : Setting) : Type 0 where
  pub some : 1 ≤ h.nodes
  pub few : h.nodes ≤ 64
  pub small : h.root ≤ 63

-- the rules of the settings
pub record SettingKept (h : Setting) : Type 0 where
  pub range : SettingInRange h
  pub rooted : h.root < h.nodes

-- the rules of the links of a mesh of that many nodes
pub record LinksKept (nodes : ℕ) (ls : List Link) : Type 0 where
  pub few : length ls ≤ 512
  pub each : AllByRecursion (λ l. InRange nodes l × EndsDiffer l) ls
  pub once : PairsOnce ls

-- the rules of the steps
abbrev pub StepsKept : List Step → Type 0
StepsKept ss = AllByRecursion (λ s. s.pick ≤ 65535) ss

pub record Kept (c : Content) : Type 0 where
  pub setting : SettingKept c.setting
  pub links : LinksKept c.setting.nodes c.links
  pub steps : StepsKept c.steps
