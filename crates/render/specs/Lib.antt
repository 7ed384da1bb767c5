-- What the contracts of `render` cite. Files that end in `Laws` hold consequences, which a reader may skip.
pub mod ParentLaws
pub mod Render
pub mod RenderLaws
