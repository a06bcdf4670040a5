pub mod MaskRuleLaws
