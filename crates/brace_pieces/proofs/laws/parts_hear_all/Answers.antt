use Rattle.brace_pieces.proofs.HeardHere.{whole_inside, queries_same, told_same, hears, becomes_heard, told_is, becomes_joined, finds_here}
use Rattle.brace_pieces.proofs.laws.parts_hear_all.Goals as goal

pub returns : goal.returns
returns c = record {
  query = λ s t p w h plain. queries_same s h.setting_is_lawful t w (whole_inside s h.setting_is_lawful t w h.are_whole) p h.is_part plain;
  told = λ s t p w h plain. told_same s h.setting_is_lawful t w (whole_inside s h.setting_is_lawful t w h.are_whole) p h.is_part plain h.ids_rise;
  heard = λ s t p w h b there. hears s h.setting_is_lawful t w (whole_inside s h.setting_is_lawful t w h.are_whole) p h.is_part b there h.ids_rise;
  becomes = λ s t p w h b there. becomes_heard s h.setting_is_lawful t w (whole_inside s h.setting_is_lawful t w h.are_whole) p h.is_part b there h.ids_rise;
  share = λ s t p w h q g. told_is s h.setting_is_lawful t w (whole_inside s h.setting_is_lawful t w h.are_whole) p h.is_part q g;
  joined = λ s t p w h plain b there. becomes_joined s h.setting_is_lawful t w (whole_inside s h.setting_is_lawful t w h.are_whole) p h.is_part plain h.ids_rise b there;
  found = λ s t p w h. finds_here s h.setting_is_lawful t w (whole_inside s h.setting_is_lawful t w h.are_whole) p h.is_part;
}
